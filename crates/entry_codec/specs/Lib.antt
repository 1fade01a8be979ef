-- An entry by its fields, and the entry that begins at a word of a list.
pub mod Codec
