pub mod Details
pub mod FaultLines
pub mod RunFaults
pub mod Reporting
