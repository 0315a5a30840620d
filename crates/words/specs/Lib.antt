-- The definitions that the contracts of `words` cite, in the order of document 01. What stands in Inner only the
-- contracts of inner functions need.
pub mod Mix
pub mod Keys
pub mod Fat
pub mod Vouched
pub mod Inner
