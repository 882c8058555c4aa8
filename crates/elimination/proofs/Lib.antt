pub mod RowLaws
pub mod Pivots
pub mod Reduced
pub mod Solutions
pub mod Zeros
pub mod LastLaws
pub mod StepLaws
