-- Theorems: nothing here is cited by a contract.
pub mod NamedLaws
pub mod ReadingLaws
