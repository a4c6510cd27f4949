-- Laws.
pub mod EverySum
