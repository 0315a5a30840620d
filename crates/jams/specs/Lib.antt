-- Jams, and what document 01 and request Five say of them beside. Inner: the state of a map while it is built, which
-- only the contracts of inner functions need.
pub mod Jam
pub mod Vouched
pub mod Inner
