pub mod Words
pub mod Rows
pub mod Texts
pub mod Lines
pub mod Tables
pub mod Fits
pub mod Begins
pub mod Answers
pub mod Driver
pub use Rattle.mega_two_moves.specs as of_moves
pub use Rattle.mega_two_moves.specs.Moves
