-- Theorems: nothing here is cited by a contract.
pub mod EntryLaws
pub mod EntryListLaws
