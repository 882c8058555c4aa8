pub mod InParts
pub mod Spaces
pub mod Stopping
pub mod Turns
pub mod Views
pub mod Delivered
pub mod Outcomes
