-- What one function hands the next.
pub mod Coded
