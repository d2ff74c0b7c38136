mod Loops
mod ZoneLaws
mod MarkupLaws
mod DataLaws
