pub mod SampleFiles
pub mod Minors
pub mod Folders
pub mod Laws
