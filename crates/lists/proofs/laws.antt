-- Theorems: nothing here is cited by a contract.
pub mod ListNotions
pub mod NumberLaws
pub mod MemberLaws
pub mod SelectedLaws
pub mod DistinctLaws
pub mod LowestLaws
pub mod GivenLaws
pub mod SumLaws
pub mod Searching
pub mod Splices
pub mod AppendingLaws
pub mod PartLaws
pub mod FirstPassing
