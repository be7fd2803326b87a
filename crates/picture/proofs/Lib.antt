pub mod Digits
pub mod Heading
pub mod Parting
pub mod Pieces
pub mod Reading
pub mod Windows
