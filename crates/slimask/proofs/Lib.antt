-- The laws of the definitions in specs/.
--   Answers:    a row is found only where the table's key there is the one asked
--   Asking:     what an ask says, by its tests
--   Determined: that any two answers of an ask are one
pub mod Answers
pub mod Asking
pub mod Determined
