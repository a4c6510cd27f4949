-- Definitions of the crate.
pub mod Tree
pub mod Read
pub mod Ranges
pub mod Code
