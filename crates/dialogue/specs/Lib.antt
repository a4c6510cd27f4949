-- Definitions of the crate.
pub mod Dialogue
pub mod Feed
pub mod Code
