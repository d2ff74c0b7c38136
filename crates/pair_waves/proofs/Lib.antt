pub mod FrameLaws
pub mod SideLaws
pub mod PairLaws
pub mod BackLaws
