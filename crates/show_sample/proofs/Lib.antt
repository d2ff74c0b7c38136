pub mod PointRuns
pub mod ExtremeLaws
pub mod ColumnLaws
pub mod Ranges
