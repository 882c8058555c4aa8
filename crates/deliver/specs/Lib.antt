pub mod Arrival
pub mod Claims
pub mod Own
pub mod Acceptance
