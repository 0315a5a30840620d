pub mod Bools
