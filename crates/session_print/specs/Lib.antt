-- Definitions of the crate.
pub mod Printed
