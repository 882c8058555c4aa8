pub mod Listed
pub mod ListedCalls
pub mod ListedStatus
pub mod ListedRebuild
pub mod Apart
pub mod NumberingHolds
