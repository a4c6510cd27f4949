-- What the functions of src/ and of the crate above hand each other.
pub mod Pass
