pub mod CountLaws
pub mod LineLaws
pub mod ListLaws
pub mod PlainLaws
pub mod PointLaws
pub mod TargetLaws
pub mod ZoneLaws
