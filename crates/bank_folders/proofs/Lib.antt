pub mod FileNameLaws
pub mod MinorLaws
pub mod ListLaws
pub mod LineLaws
pub mod PointLaws
pub mod FolderLaws
