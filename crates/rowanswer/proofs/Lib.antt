-- The laws of the definitions in specs/.
--   Showing:  texts at the start of the memory
--   Reading:  from what was read to what is printed
--   Sizes:    how long a text that is printed can be, and how much of an input must be seen
--   Worked:   the example of document 01, text by text
--   Determined: an input has one text that is printed of it, and `answer` one result
pub mod Showing
pub mod Reading
pub mod Sizes
pub mod Determined
pub mod Worked
