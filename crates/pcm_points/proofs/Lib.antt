pub mod NearestLaws
pub mod FloatLaws
pub mod ChannelLaws
pub mod OffsetLaws
pub mod DitherLaws
pub mod BlockLaws
pub mod PieceLaws
