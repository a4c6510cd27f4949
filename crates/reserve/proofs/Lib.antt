-- Laws of the definitions.
pub mod Line
pub mod Exact
pub mod Fit
pub mod Bounds
