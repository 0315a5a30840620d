-- The definitions that the contracts of `stores` cite. Inner: what only inner functions' contracts need.
pub mod Limits
pub mod Sizes
pub mod Stores
pub mod Judged
pub mod Vouched
pub mod Determined
pub mod Inner
