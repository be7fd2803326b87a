pub mod Bytes
pub mod EntryTexts
pub mod MessageTexts
