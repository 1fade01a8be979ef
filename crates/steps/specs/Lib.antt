-- What reading one record comes to.
pub mod Steps
