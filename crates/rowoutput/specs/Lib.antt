-- What rowcheck prints.
pub mod Output
