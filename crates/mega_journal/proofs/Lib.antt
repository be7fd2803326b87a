mod Pieces
pub mod Reading
pub mod Records
pub mod Repaired
pub mod Written
