-- The network of a plan: its parts, its hops, the hops of one bridge in the making, and the network as a whole.
pub mod Layout
pub mod Neighbours
pub mod Rows
pub mod Networks
