-- Definitions of the crate.
pub mod End
pub mod Words
pub mod ReadBack
