-- Theorems, apart from what contracts cite.
pub mod laws
