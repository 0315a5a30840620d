-- The laws of the definitions in specs/: how long the texts are, and their lines put one after another.
pub mod Printing
