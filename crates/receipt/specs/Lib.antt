pub mod Claims
pub mod Own
pub mod Return
