pub mod AlikeLaws
pub mod SplitLists
pub mod SplitLaws
pub mod Existing
pub mod PartLaws
