pub mod PanningLaws
pub mod FineLaws
pub mod PositionLaws
pub mod OverLaws
pub mod RunLaws
pub mod SliceLaws
pub mod StartLaws
pub mod ReleaseLaws
