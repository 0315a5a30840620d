-- Telling: what two places tell, and the walk past the root.
pub mod Telling
