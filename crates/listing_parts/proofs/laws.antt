-- Theorems: nothing here is cited by a contract.
pub mod PairLines
pub mod LabelledLineLaws
pub mod PathLineLaws
pub mod EntryLines
pub mod PartLaws
pub mod TableParts
