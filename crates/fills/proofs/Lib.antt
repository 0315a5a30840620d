-- Filling: the cells filled from the last turn to the first (J6).
pub mod Filling
