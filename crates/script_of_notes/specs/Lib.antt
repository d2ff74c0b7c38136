pub mod NoteTexts
