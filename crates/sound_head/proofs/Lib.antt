-- Laws of the functions.
pub mod HeadTest
