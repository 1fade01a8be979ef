-- Theorems: nothing here is cited by a contract.
pub mod DigitLaws
pub mod TextLaws
