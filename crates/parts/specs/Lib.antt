pub mod AtNode
pub mod Own
