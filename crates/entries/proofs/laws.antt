-- Theorems: nothing here is cited by a contract.
pub mod PlanWords
pub mod PartLaws
pub mod WholeLaws
