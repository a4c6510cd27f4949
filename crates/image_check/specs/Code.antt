-- What the functions of src/ hand those above.
pub mod Access
