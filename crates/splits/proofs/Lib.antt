-- The laws of the definitions in specs/.
--   Rows:    the rows of a split and what they share (S2, S3)
--   Parents: the root and the parent's length           Handles: map 3's items, pairwise different (J8)
--   Jumping: the ends of a split's rows (S4)            Stores:  stores written entry by entry
pub mod Rows
pub mod Parents
pub mod Handles
pub mod Jumping
pub mod Stores
