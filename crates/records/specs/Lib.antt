pub mod Records
pub mod Conditions
pub mod Stages
pub mod Claims
