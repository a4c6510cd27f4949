-- Definitions of the crate.
pub mod Book
