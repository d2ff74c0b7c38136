mod SearchLaws
pub mod NameLaws
mod ZoneLaws
mod AppendingLaws
pub mod FitLaws
