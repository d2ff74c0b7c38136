pub mod BareLaws
pub mod PathLaws
pub mod RowLaws
pub mod FileLaws
pub mod RowTextLaws
