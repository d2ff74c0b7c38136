pub mod Faults
pub mod Zones
pub mod ZoneParsers
pub mod Rows
pub mod Files
pub mod RowTexts
