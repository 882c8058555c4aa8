pub mod Past
pub mod StoreLaws
pub mod WhenDone
