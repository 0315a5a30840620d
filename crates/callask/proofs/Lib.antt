-- The laws of the definitions in specs/.
--   Answers:    a row is answered only where the key stands
--   Asking:     the chain of refusals, and the rule from what its calls find
--   Determined: what the statement determines
pub mod Answers
pub mod Asking
pub mod Determined
