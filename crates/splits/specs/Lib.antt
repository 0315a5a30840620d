-- The definitions that the contracts of `splits` cite, in the order of document 01. Inner: what only inner functions'
-- contracts need.
pub mod Splits
pub mod Vouched
pub mod Inner
