pub mod InParts
pub mod OwnLaws
pub mod Outcomes
pub mod OwnBits
pub mod NodeHolds
