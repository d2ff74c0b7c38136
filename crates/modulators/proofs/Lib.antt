pub mod LinearLaws
