-- The lines of the load report, pair by pair.
pub mod PairTexts
