pub mod RebuildAnswer
pub mod Results
pub mod Rebuild
pub mod Claims
