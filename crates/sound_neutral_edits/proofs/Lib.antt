pub mod FormLaws
pub mod UndoneLaws
pub mod EventLaws
pub mod Applied
