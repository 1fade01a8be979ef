-- Examples that the checker computes: nothing here is cited by a contract.
pub mod Tables
pub mod Figures
pub mod RequestFigures
pub mod Worked
pub mod Settings
pub mod Pinned
