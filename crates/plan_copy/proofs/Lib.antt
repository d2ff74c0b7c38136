pub mod NumberLaws
pub mod StepLaws
pub mod FaultLaws
pub mod CopyLaws
