-- The definitions that the contracts of `items` cite. Inner: what only inner functions' contracts need.
pub mod Items
pub mod Vouched
pub mod Inner
