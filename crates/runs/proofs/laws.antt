-- Theorems: nothing here is cited by a contract.
pub mod KindLaws
pub mod RunLaws
pub mod BeforeLaws
