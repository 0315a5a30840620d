-- The laws of the definitions in specs/.
--   Lending: the named lengths, and the answers that tell them
pub mod Lending
