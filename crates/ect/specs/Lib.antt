-- Rows of masked identifiers in one list, and the laws behind masking, insertion and comparison.
pub mod Masks
pub mod Rows
pub mod Comparisons
