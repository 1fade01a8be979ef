-- A store that keeps trees.
pub mod Store
