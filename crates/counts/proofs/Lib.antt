pub mod Sizes
pub mod Starts
