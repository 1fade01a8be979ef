-- The outcomes of the calls of services as lines.
pub mod ServiceText
