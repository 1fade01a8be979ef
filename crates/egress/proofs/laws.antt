-- Theorems: nothing here is cited by a contract.
pub mod HopLaws
pub mod PassLaws
pub mod LeavingLaws
pub mod PlanPortLaws
pub mod RowLaws
