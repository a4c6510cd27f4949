-- What one function of src/ hands the next.
pub mod Head
pub mod Opened
pub mod Page
