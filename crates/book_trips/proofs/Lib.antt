-- The proof of the claim.
pub mod Given
pub mod Trips
