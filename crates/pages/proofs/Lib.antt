-- Laws of the crate.
pub mod Coding
pub mod Prefix
pub mod Gathering
pub mod SoundPage
