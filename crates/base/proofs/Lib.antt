pub mod Choice
pub mod Tests
pub mod Refusals
pub mod Tables
pub mod Sums
pub mod Updates
pub mod Runs
