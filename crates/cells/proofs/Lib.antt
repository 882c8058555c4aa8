pub mod ColumnLaws
pub mod StripeLaws
pub mod Zeroed
