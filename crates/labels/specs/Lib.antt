-- The labels of a tree in the making, and what an offer does to them.
pub mod Labels
pub mod Nearest
pub mod Relaxing
