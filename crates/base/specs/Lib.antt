pub mod Tests
pub mod Refusals
pub mod Folds
pub mod Updates
