-- The laws of the definitions in specs/.
--   Parts:      a part of a store, lent and taken back
--   Joining:    two maps in one store
--   Planned:    over them the key of row r is found in row r
--   Determined: what an accepted build leaves free in the call cells
pub mod Parts
pub mod Joining
pub mod Planned
pub mod Determined
