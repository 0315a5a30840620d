-- The named lengths of the slim profile. Determined: what is said of them determines.
pub mod Sizes
pub mod Determined
