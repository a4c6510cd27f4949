-- Laws of the definitions.
pub mod Laws
pub mod Words
pub mod Packing
pub mod Little
pub mod Bytes
pub mod Zeros
