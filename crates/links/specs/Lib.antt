-- The links of a table that passed the check: what its half-links come to, and the laws that link them to the plan's.
pub mod Mates
pub mod Hops
