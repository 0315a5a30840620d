-- The laws of the definitions in specs/.
--   Lining:  one line, read after its tag; how long it is; that no line begins another
--   Listing: n lines one after the other, looked for and loaded
--   Putting: n lines one after the other, written
--   Determined: what specs/Determined.antt states
pub mod Lining
pub mod Listing
pub mod Putting
pub mod Determined
