-- Inner: what the contracts of `fills` cite. No entry's statement leads there.
pub mod Inner
