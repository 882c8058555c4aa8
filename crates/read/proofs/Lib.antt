pub mod InParts
pub mod Stands
pub mod Outcomes
