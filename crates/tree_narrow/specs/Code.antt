-- What one function of src/ hands the next.
pub mod Halves
