-- Theorems: nothing here is cited by a contract.
pub mod SettlingLaws
pub mod TreeLaws
pub mod StepLaws
pub mod StartLaws
pub mod OrderLaws
pub mod SearchLaws
