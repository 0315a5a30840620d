-- Said: what an answer and the walk say. Inner: what only inner functions' contracts need.
pub mod Said
pub mod Inner
