-- The definitions that the contracts of `lines` cite, and that the contracts leave one result.
pub mod Lines
pub mod Determined
