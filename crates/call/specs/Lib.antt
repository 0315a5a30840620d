-- The definitions that the contracts of `call` cite. What stands in Inner only inner functions' contracts need.
pub mod Build
pub mod Inner
pub mod Determined
