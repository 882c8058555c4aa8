pub mod Outcomes
pub mod NewNodes
pub mod RowTests
