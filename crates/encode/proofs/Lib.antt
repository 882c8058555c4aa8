pub mod Outcomes
pub mod StripeRows
