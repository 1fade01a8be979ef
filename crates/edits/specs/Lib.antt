-- A plan edited on screen (02, A7): edits of plans and tables, and the calls of a running plan.
pub mod Edits
pub mod Running
