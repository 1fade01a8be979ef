-- What the check's functions compute, and the laws that link their positions in the table to the plan.
pub mod Positions
pub mod Whole
pub mod Numbered
