-- The definitions that the contract of the slim build cites. Determined: what it determines. Inner: what only inner
-- functions' contracts need.
pub mod Build
pub mod Determined
pub mod Inner
