pub mod HandedOn
pub mod News
pub mod NodeCalls
pub mod Parts
