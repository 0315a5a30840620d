-- The laws of the definitions in specs/.
--   Positions: what stands at a position, parts of a slice, texts one after the other
--   Placing:   a text put at a position, texts written one after the other
--   Glyphs:    the digits of a number in any base up to 16
--   Decimals:  the decimal text of a number
--   Runs:      a run of digits in a text, and the number that it says
--   Hexes:     the hexadecimal text of a number
--   Determined: what specs/Determined.antt states
pub mod Positions
pub mod Placing
pub mod Glyphs
pub mod Decimals
pub mod Runs
pub mod Hexes
pub mod Determined
