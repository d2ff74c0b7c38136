pub mod Faults
pub mod Paths
pub mod Requests
pub mod Comments
pub mod Answers
