mod UseLaws
mod PresetSearch
pub mod SetLaws
pub mod AlikeSteps
pub mod PresetLaws
mod ZoneSetLaws
mod SameVoices
mod SelectedLaws
mod TimeLaws
pub mod PlayedLaws
