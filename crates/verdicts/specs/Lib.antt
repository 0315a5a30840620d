-- How every build ends. Inner: what only inner functions' contracts need.
pub mod Ended
pub mod Inner
