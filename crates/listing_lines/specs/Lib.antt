-- The listing of a table, and the laws of writing its lines.
pub mod Listing
pub mod PathAnswers
