-- What the writers of services write part by part, and the laws that link their loops to the definitions of rule.
pub mod Heads
pub mod Gathered
