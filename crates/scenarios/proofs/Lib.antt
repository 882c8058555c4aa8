pub mod Opened
pub mod SmallGrowth
pub mod SmallDrives
pub mod WideBytes
pub mod SwappedGrowth
pub mod Rebuilt
pub mod Refusals
pub mod AllHold
