pub mod Answers
pub mod Cases
pub mod Located
pub mod Numbers
pub mod Repeats
