pub mod PieceLaws
pub mod SampleLaws
pub mod KeptLaws
mod ReducedLaws
pub mod ReadLaws
pub mod ImportLaws
pub mod FitLaws
pub mod WrittenLaws
pub mod BackLaws
pub mod DataLaws
pub mod FrameLaws
