-- Laws of the definitions.
pub mod PlanLaws
pub mod PageByPage
pub mod BlockByBlock
