-- Lists of numbers and of anything else: what knows no graph, no table and no text.
pub mod Lists
pub mod Members
pub mod Appending
