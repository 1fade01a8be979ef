-- Theorems: nothing here is cited by a contract.
pub mod LabelLaws
pub mod RelaxingLaws
pub mod NearestLaws
