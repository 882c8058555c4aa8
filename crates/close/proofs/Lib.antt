pub mod InParts
pub mod Cleared
pub mod Outcomes
