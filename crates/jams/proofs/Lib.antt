-- The laws of the definitions in specs/.
--   Sets:    the size of a set of items, and the xor of its numbers
--   Jams:    jams in the demands' words; jams hold no peeled items (J4, J5)
--   Largest: where there is a jam there is one that is largest, and its size (J9)
--   Puts:    an item put in at its cells, and taken out
--   Peeling: an item gets its turn, and is taken out (J1, J2)
--   Ordering: a peeling order that is written out, seen to be one by a test
--   Clearing: memory cleared over a named length
pub mod Sets
pub mod Jams
pub mod Largest
pub mod Puts
pub mod Peeling
pub mod Ordering
pub mod Clearing
