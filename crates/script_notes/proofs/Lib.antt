pub mod BareLaws
pub mod NoteLaws
