-- The laws of the definitions in specs/.
--   Jamming:    the first map that has a jam
--   Building:   what the two maps leave, built one after the other
--   Determined: that any two outcomes of a build are one
pub mod Jamming
pub mod Building
pub mod Determined
