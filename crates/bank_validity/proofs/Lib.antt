pub mod LevelLaws
pub mod LimitLaws
