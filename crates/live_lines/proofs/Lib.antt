pub mod LineLaws
pub mod PathLaws
pub mod RequestLaws
pub mod CommentLaws
