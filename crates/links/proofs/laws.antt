-- Theorems: nothing here is cited by a contract.
pub mod MateLaws
pub mod CountLaws
pub mod HopLaws
