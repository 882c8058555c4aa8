pub mod Numbering
pub mod Values
pub mod Claims
