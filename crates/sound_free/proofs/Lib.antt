-- Laws of the functions.
pub mod Blocks
pub mod CellTest
pub mod FreeTest
