mod PairLaws
mod ContentLaws
pub mod ReplacingLaws
pub mod RestLaws
pub mod FitLaws
pub mod InPlaceLaws
