-- The laws of the definitions in specs/.
--   Standing: a key is found in a row only where the table's key there is the same
--   Marking:  what a byte makes of a row
pub mod Standing
pub mod Marking
