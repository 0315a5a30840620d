-- Inner: what the contracts of `peels` cite. No entry's statement leads there.
pub mod Inner
