-- Laws of the functions.
pub mod Quiet
pub mod PageTest
