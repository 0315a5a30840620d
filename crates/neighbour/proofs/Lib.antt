-- The laws of the definitions in specs/, above those of `walks` and `places`.
--   Asking:  the theorems on what an ask says
--   Storing: what the build of the stores leaves
--   Determined: that any two answers of an ask are one
pub mod Asking
pub mod Storing
pub mod Determined
