-- An index of keys in a list of numbers: what it holds, and what finding a key comes to.
pub mod Places
pub mod Index
