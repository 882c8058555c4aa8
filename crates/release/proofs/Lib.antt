pub mod InParts
pub mod Receipted
pub mod OwnSlots
pub mod NodeReleased
pub mod Outcomes
pub mod NodeHolds
