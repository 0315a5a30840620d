-- The laws of the definitions in specs/.
--   Chains:   refusals in their order          Limiting: refusals 1 and 2
--   Judging:  what a build or an ask that is judged has passed
--   Lending:  the named lengths
pub mod Chains
pub mod Limiting
pub mod Judging
pub mod Lending
