-- What the functions of src/ hand each other.
pub mod Places
