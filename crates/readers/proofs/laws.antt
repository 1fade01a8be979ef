-- Theorems: nothing here is cited by a contract.
pub mod ReaderLaws
pub mod WordLaws
