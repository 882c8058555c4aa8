pub mod WordLaws
pub mod ByteLaws
pub mod FormLaws
pub mod WireHolds
