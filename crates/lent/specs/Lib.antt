pub mod Checks
pub mod SameGrowth
