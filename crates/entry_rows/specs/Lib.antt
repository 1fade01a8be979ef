-- What the entries of a bridge need before they are written.
pub mod Needed
