-- Definitions of the crate.
pub mod Lines
