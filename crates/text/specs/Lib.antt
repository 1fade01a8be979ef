-- Numbers, fields and lines as text, and the laws of writing them.
pub mod Text
