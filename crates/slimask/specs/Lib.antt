-- The slim ask. What stands in Inner only inner functions' contracts need.
pub mod Ask
pub mod Determined
pub mod Inner
