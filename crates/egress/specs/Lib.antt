-- The ports of a bridge's hops, and the ports by which chosen paths leave it.
pub mod Hops
pub mod Leaving
pub mod Rows
