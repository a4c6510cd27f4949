-- Laws of the functions.
pub mod ChainTest
pub mod Counting
pub mod Checked
