-- What the code hands on; its definitions are those of `reserve`.
pub mod Code
