-- Theorems: nothing here is cited by a contract.
pub mod PairTextLaws
pub mod LoadReportLaws
