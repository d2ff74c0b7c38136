pub mod DraftLaws
pub mod MoveLaws
