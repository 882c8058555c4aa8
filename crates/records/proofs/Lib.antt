pub mod Digits
pub mod Subsets
pub mod WordTests
pub mod MarkLaws
pub mod StepLaws
pub mod RecordsHold
