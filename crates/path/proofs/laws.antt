-- Theorems: nothing here is cited by a contract.
pub mod FollowedLaws
pub mod LabelledLaws
pub mod NamedLaws
pub mod PlanCalls
