-- The laws of the definitions in specs/.
--   Values: what stands at each number of maps 1 and 2 and of the offsets; the value of a key and the prefix of its
--     bucket lead back to its row
--   Handling: what stands at each number of map 3, by the stores
--   Sources: what is known of each map and of an item number below its count; each item has a value, of 16 bits
--   Distinct: the items of a map are pairwise different (J8)
pub mod Values
pub mod Handling
pub mod Sources
pub mod Distinct
