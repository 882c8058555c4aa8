pub mod Answers
pub mod Cases
pub mod Exits
