-- Theorems: nothing here is cited by a contract.
pub mod MaskLaws
pub mod RowLaws
pub mod InsertionLaws
pub mod ComparisonLaws
pub mod ComparedProved
