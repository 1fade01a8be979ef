-- The path call and the tree call, by the labels of a tree.
pub mod Followed
pub mod Labelled
pub mod Named
