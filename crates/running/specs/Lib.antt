-- What the calls of a running plan work out before they write.
pub mod Permission
