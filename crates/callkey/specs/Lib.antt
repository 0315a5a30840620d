-- The definitions that the contracts of `callkey` cite, and what is promised beyond them.
pub mod Fields
pub mod CallKeys
pub mod Demands
pub mod Determined
pub mod Vouched
