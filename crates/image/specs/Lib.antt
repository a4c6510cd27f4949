-- Definitions of the crate.
pub mod Image
pub mod Read
pub mod Check
pub mod Query
pub mod Reach
pub mod Calls
pub mod Code
