-- The laws of the definitions in specs/.
--   Refusing:   what a build refuses before it builds ends it, and what it is ready for otherwise
--   Clearing:   stores that are the same, and cleared
--   Ending:     how a build ends, from its maps and the verdict on them; what an accepted build is
--   Determined: that any two ends of a build are one, but for what a filling leaves free
pub mod Refusing
pub mod Clearing
pub mod Ending
pub mod Determined
