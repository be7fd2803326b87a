pub mod Entries
pub mod EntryLaws
pub mod Same
pub mod Formats
pub mod FieldFormats
