-- Theorems: nothing here is cited by a contract.
pub mod FaultNotions
pub mod FaultLaws
