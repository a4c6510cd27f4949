-- Definitions of the crate.
pub mod Freeze
