pub mod Cells
pub mod Journals
pub mod Claims
