pub mod GainLaws
pub mod PhaseLaws
pub mod WriteLaws
