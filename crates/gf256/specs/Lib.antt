pub mod Field
pub mod Logs
pub mod Claims
