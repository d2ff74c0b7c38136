pub mod PlaceLaws
pub mod PutLaws
pub mod FileLaws
pub mod KitLaws
