-- Graphs and chosen paths, apart from tables, masks and ports. Read in this order.
pub mod Order
pub mod Graph
pub mod Chosen
pub mod Pairs
pub mod Lookups
