-- The check's outcome as a line of text.
pub mod CheckText
