-- What one function of src/ hands the next.
pub mod Narrow
pub mod Four
