-- Definitions of the crate.
pub mod Session
pub mod PlainSession
pub mod Code
