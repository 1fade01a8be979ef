-- What costs and hop counts are as numbers.
pub mod Measures
