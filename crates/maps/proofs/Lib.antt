-- The laws of the definitions in specs/, above those of `jams`, `counts`, `peels` and `fills`.
--   Building: what a build does is what it promises                  Determined: what the promise decides
--   Rooms: what a map of fewer items takes
pub mod Building
pub mod Determined
pub mod Rooms
