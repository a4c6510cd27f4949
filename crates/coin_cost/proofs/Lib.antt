-- Laws of the crate: of a page's cells, of the calls; the claim, and what it says; how sharp the figures are.
pub mod CellLaws
pub mod CallCosts
pub mod Claim
pub mod Sentences
pub mod Sharp
