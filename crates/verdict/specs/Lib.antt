-- What reading one record and examining a table come to, and the laws that link them to the verdict.
pub mod Examination
