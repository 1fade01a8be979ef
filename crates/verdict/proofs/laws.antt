-- Theorems: nothing here is cited by a contract.
pub mod LastLaws
pub mod ExaminationLaws
pub mod CheckedLaws
pub mod AskedLaws
