pub mod Json
pub mod Zones
pub mod Columns
pub mod Samples
pub mod Findings
pub mod Data
pub mod Page
pub mod Laws
