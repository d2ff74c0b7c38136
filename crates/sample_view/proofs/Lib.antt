pub mod WordLaws
pub mod RunLaws
pub mod PieceLaws
mod PositionLaws
mod CopyLaws
mod CutLaws
mod SlotLaws
