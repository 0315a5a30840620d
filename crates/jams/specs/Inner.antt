-- The state of a map while it is built: no entry's statement leads to any of it.
pub mod Peel
pub mod Work
pub mod Fill
