-- Theorems: nothing here is cited by a contract.
pub mod LayoutLaws
pub mod VisitLaws
pub mod RowLaws
pub mod NeighbourLaws
pub mod BridgeLaws
pub mod NetworkLaws
