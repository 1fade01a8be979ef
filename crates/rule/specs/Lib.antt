-- Documents 01 and 02 as definitions. Read in this order: the table, what it says, the calls, the frames, demand 3. The laws that prove
-- demand 3, and its proof, stand apart, and so do the figures.
pub mod Words
pub mod Records
pub mod Outcome
pub mod Plan
pub mod Check
pub mod Links
pub mod Identifiers
pub mod Paths
pub mod Entries
pub mod Answers
pub mod Refusals
pub mod Calls
pub mod Loads
pub mod LoadsAddUp
pub mod Lookup
pub mod Exported
pub mod Services
pub mod ComesBack
pub mod Frames
pub mod Demand3
pub mod PortsDown
pub mod Extensions
pub mod PlanLaws
