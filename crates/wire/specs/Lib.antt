pub mod Words
pub mod Headers
pub mod Forms
pub mod WordClaims
pub mod Claims
