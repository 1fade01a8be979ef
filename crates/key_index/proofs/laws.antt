-- Theorems: nothing here is cited by a contract.
pub mod PlaceLaws
pub mod Passing
pub mod IndexLaws
pub mod OtherLaws
