-- Theorems: nothing here is cited by a contract.
pub mod PlaceLaws
pub mod AlongLaws
pub mod TreeLaws
pub mod ReportLaws
pub mod TrafficLaws
