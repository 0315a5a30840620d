-- The definitions that the contracts of `neighbour` cite, in the order of document 01. Determined: what the
-- statements determine. Inner: what only inner functions' contracts need.
pub mod Build
pub mod Ask
pub mod Determined
pub mod Inner
