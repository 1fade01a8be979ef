-- Theorems: nothing here is cited by a contract.
pub mod EndRead
pub mod RecordWords
pub mod EditLaws
pub mod NamedRecord
pub mod ChangedTables
pub mod RunningLaws
