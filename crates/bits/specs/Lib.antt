-- Definitions of the crate.
pub mod Bits
pub mod Pack
pub mod Numbers
