-- Laws of the definitions.
pub mod Splices
pub mod Writing
pub mod PageSteps
pub mod PagesLaid
pub mod Answering
pub mod BlockByBlock
pub mod PageByPage
