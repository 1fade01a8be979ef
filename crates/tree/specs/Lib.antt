-- Labels and masked PATHIDs of a search in lent lists, and what a search keeps true of them.
pub mod Settling
pub mod Trees
pub mod Tracked
