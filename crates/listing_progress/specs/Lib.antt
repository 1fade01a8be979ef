-- What is left to give of a listing.
pub mod Remaining
