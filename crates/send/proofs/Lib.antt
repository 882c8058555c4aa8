pub mod InParts
pub mod ByKind
pub mod Payloads
pub mod Messages
pub mod Outcomes
pub mod NodeHolds
