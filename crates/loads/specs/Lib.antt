-- Loads of pairs in a list, and what records of traffic add to them.
pub mod Places
pub mod Sums
pub mod Reports
