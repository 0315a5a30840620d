-- The definitions that the contracts of `tables` cite, in the order of document 01. Inner: what only inner functions'
-- contracts need.
pub mod Tables
pub mod Delimiters
pub mod Buckets
pub mod Lengths
pub mod Vouched
pub mod Determined
pub mod Inner
