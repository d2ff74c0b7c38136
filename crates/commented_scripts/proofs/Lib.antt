pub mod ListingLaws
pub mod ReadLaws
pub mod CommentedLaws
