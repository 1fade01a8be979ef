-- What the functions for the benchmark give, and the laws behind it.
pub mod BenchCalls
