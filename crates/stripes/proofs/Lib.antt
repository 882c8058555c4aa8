pub mod PutRuns
pub mod RowBytes
pub mod Pieces
pub mod Turns
pub mod Moves
pub mod Holding
