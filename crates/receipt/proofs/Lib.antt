pub mod Outcomes
pub mod NodeHolds
