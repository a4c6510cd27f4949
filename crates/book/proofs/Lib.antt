-- Laws of the crate.
pub mod BookLaws
pub mod HourLaws
