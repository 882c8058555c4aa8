pub mod TileLaws
pub mod ClearLaws
