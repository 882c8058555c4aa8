pub mod Loss
pub mod Table
