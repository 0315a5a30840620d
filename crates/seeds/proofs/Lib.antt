-- The laws of the definitions in specs/: what a seed's build leaves, and why one is refused.
pub mod Seeding
