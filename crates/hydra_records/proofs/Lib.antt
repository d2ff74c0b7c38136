pub mod Fields
pub mod RecordTypeLaws
pub mod RecordLaws
pub mod TableLaws
