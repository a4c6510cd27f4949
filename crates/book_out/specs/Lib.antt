-- Definitions of the crate.
pub mod ToBook
