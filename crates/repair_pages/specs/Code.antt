-- What the functions of src/ hand each other.
pub mod Chain
pub mod Page
pub mod Pages
