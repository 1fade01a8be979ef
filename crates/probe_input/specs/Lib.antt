-- What the next table of an input and a lent list before a call are on paper.
pub mod Lengths
pub mod Lent
