-- Theorems: nothing here is cited by a contract.
pub mod EntryWordLaws
pub mod Receivers
