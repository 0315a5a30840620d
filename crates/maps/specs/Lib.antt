-- The definitions that the contract of `maps` cites, and what it determines.
pub mod Built
pub mod Determined
