-- What a reader finds in the words of one record.
pub mod Readers
