-- The laws of the definitions in specs/.
--   Values: where the cells of an item are, and on which cells its value depends
--   Sweeping: memory that is overwritten entry by entry, and memory that is cleared again
pub mod Values
pub mod Sweeping
