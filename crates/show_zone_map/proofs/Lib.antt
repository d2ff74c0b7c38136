pub mod Rows
pub mod SampleLaws
pub mod LabelLaws
pub mod LegendLaws
pub mod Kept
pub mod SelectLaws
