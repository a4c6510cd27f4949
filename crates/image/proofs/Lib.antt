-- Laws of the definitions.
pub mod Editions
pub mod Packed
pub mod PageLaws
pub mod ReadLaws
pub mod Accepted
pub mod CheckLaws
pub mod DamageLaws
pub mod QueryLaws
pub mod HeadLaws
pub mod TailLaws
pub mod RootLaws
pub mod CallLaws
pub mod Sizes
pub mod Blocks
