-- Walk: the walk. Vouched: why its definitions may be believed.
pub mod Walk
pub mod Vouched
