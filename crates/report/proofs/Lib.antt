pub mod Decimal
pub mod Reading
pub mod Writing
pub mod Compare
pub mod Lines
pub mod Reports
pub mod Examples
