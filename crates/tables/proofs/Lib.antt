-- The laws of the definitions in specs/.
--   Lists: a list given by its elements                 Delimiting: buckets and their last keys
--   Rising: later rows have larger keys, and the first row that falls
--   Bucketing: what the keys of a bucket share (C1), and that no two buckets have one prefix
--   Determined: what specs/Determined.antt states
pub mod Lists
pub mod Delimiting
pub mod Rising
pub mod Bucketing
pub mod Determined
