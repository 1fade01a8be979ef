-- What the program of edits writes.
pub mod EditText
