-- The claim.
pub mod RoundTrips
