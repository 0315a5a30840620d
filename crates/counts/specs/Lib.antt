-- Inner: what the contracts of `counts`, `peels` and `fills` cite. No entry's statement leads there.
pub mod Inner
