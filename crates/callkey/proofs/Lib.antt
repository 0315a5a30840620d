-- The laws of the definitions in specs/.
--   Packing: the packing law, once for all widths        Demands: what the specs Demands and Vouched state
--   Determined: what the specs of that name state
pub mod Packing
pub mod Demands
pub mod Determined
