-- Examples that the checker computes: nothing here is cited by a contract.
pub mod Pair
