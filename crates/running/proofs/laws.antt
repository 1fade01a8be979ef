-- Theorems: nothing here is cited by a contract.
pub mod PermissionLaws
pub mod ChangeLaws
pub mod CallLaws
