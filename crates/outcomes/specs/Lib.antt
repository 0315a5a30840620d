-- The definitions that the contracts of `outcomes` cite. What stands in Inner only the contract of an inner function
-- needs.
pub mod Outcomes
pub mod Vouched
pub mod Inner
