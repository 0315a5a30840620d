-- rowcheck's input, and what is claimed of its reader. What stands in Inner only inner functions' contracts need.
pub mod Input
pub mod Determined
pub mod Inner
