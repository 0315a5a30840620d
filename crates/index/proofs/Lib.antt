-- The proofs of what specs/ states.
--   Accepted:  what an accepted build says of its inputs and leaves
--   Answering: what the stores of accepted builds answer
--   Telling:   demand 2
--   Jamming:   the law behind demand 1 and request Five, of any build
--   Searching: the law behind demand 3 and request Six, over any rising list
--   Demands:   the customer's other demands
--   Buckets:   the bucket of a key is the number of smaller delimiters
--   SlimAnswering, Slim: what the slim profile answers, and the demands on it
--   Worked:    the worked cases
pub mod Accepted
pub mod Answering
pub mod Telling
pub mod Jamming
pub mod Searching
pub mod Demands
pub mod Buckets
pub mod SlimAnswering
pub mod Slim
pub mod Worked
