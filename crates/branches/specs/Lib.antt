-- What the labels of a tree say of every bridge.
pub mod Branches
