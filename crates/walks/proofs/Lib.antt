-- The laws of the definitions in specs/.
--   Paths:      the splits on a key's path (S6, W1)
--   Descending: the probes of a walk, and where they end (W1 to W3)
--   Deciding:   the last comparison finds the place (W4)
--   Answering:  the theorems on the walk (W3 to W5)
--   Roots:      the root's string is what all keys share
--   Testing:    a test by which a list is seen to be a table
pub mod Paths
pub mod Descending
pub mod Deciding
pub mod Answering
pub mod Roots
pub mod Testing
