-- The definitions that the contracts of `digits` cite: texts at a position, the texts of numbers, and that the
-- contracts leave one result.
pub mod Texts
pub mod Numbers
pub mod Inner
pub mod Determined
