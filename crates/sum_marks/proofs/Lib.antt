-- Laws of marks, and of the first counts with a sum.
pub mod MarkLaws
pub mod PrefixLaws
