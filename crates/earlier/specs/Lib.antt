-- A half-link against the half-links before it.
pub mod Keys
pub mod HalfLinks
