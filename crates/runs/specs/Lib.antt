-- What reading all records of a kind comes to.
pub mod Runs
