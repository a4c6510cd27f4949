-- What the code hands on; its definitions are those of `tree`.
pub mod Code
