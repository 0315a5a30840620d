-- The definitions that the contracts of `rowanswer` cite, and that its entry's leaves one result. What stands in Inner
-- only inner functions' contracts need.
pub mod Answers
pub mod Worked
pub mod Determined
pub mod Inner
