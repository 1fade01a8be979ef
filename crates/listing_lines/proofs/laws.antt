-- Theorems: nothing here is cited by a contract.
pub mod ListingLaws
pub mod PathLineLaws
pub mod EntryLineLaws
pub mod ExtensionListing
