pub mod ListLaws
pub mod HistoryLaws
pub mod UndoRedoLaws
