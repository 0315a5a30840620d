-- The laws of the definitions in specs/, above those of `jams`.
--   Finding:  the cells found for an item are its cells               Counting: all items put in (J1)
pub mod Finding
pub mod Counting
