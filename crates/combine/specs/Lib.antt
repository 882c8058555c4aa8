pub mod Combination
pub mod Columns
pub mod Planes
