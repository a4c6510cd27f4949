-- What one function hands the next, by the file that has it.
pub mod Node
pub mod InWord
pub mod Exact
