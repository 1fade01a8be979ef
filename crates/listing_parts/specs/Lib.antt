-- The parts of a listing: what each is, by the network of a checked table, and that together they are the listing.
pub mod Parts
