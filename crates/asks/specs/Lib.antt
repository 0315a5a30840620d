-- What is printed of an ask. What stands in Inner only the contracts of inner functions need.
pub mod Asks
pub mod Inner
