pub mod Text
pub mod Reports
pub mod Writing
pub mod Reading
