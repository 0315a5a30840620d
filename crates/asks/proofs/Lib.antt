-- The laws of the definitions in specs/.
--   Asking:   what the two indexes answer, as rowcheck prints it
--   Printing: the asks' lines, one after another
pub mod Asking
pub mod Printing
