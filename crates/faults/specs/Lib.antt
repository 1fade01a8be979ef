-- The faults of a record as numbers, and the laws that link the code's tests to them.
pub mod Faults
