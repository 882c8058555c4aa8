pub mod Losses
pub mod Solution
pub mod Claims
