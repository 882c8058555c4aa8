pub mod Claims
pub mod Own
