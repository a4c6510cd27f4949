-- What functions hand each other: the header that was read, links, the check's walk, chains between two pages of a change, the change of an
-- hour, of many pages. The functions stand here and in the crates above, the laws here.
pub mod Head
pub mod Links
pub mod Checked
pub mod Chained
pub mod Hours
pub mod Moving
