pub mod Walk
pub mod Finding
pub mod First
pub mod Encoding
pub mod Laws
