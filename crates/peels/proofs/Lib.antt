-- Trying: cells tried until no item is alone without a turn (J3).
pub mod Trying
