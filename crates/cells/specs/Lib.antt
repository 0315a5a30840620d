-- The definitions that the contracts of `cells` cite.
pub mod Cells
pub mod Memory
