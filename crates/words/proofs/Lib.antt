-- The laws of the definitions in specs/.
--   Products: a product from the products of halves        Xor: exclusive or is associative and undoes itself
--   Sharing:  shared leading bits (P1 to P4)                Items: an item tells its prefix (P5)
--   Fatness:  2-fattest numbers (F1 to F3)                  Probing: a fat search makes few probes (F4)
--   Published: SplitMix64's published outputs               Remainders: remainders from products with a reciprocal
pub mod Products
pub mod Xor
pub mod Sharing
pub mod Items
pub mod Fatness
pub mod Probing
pub mod Published
pub mod Remainders
