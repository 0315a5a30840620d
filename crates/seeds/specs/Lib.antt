-- The seeds that a table takes. What stands in Inner only the contracts of inner functions need.
pub mod Seeds
pub mod Inner
