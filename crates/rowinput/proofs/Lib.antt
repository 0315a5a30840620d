-- The laws of the definitions in specs/.
--   Scanning:   an input line by line, and that it is read in one way
--   Determined: what the reader's contract determines, and how long an input can be
pub mod Scanning
pub mod Determined
