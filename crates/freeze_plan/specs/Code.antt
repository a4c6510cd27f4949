-- What the functions of src/ hand one another.
pub mod Steps
pub mod Parts
