pub mod Laws
pub mod RatioLaws
pub mod ScalingLaws
