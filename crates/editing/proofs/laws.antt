-- Theorems: nothing here is cited by a contract.
pub mod FindLaws
pub mod GapLaws
pub mod EditedBytes
