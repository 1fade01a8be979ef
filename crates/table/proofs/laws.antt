-- Theorems: nothing here is cited by a contract.
pub mod PositionLaws
pub mod NumberedLaws
