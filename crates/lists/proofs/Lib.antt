-- The laws that `load`, `room` and `write` share.
--   Values: the numbers that a slice's values are
pub mod Values
