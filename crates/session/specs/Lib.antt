-- Definitions of the crate.
pub mod Ascii
pub mod Number
pub mod Line
