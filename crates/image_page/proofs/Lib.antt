-- Laws of the crate.
pub mod AcceptedPage
