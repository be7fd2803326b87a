pub mod Rows
pub mod RowWrites
pub mod Pending
pub use Rattle.mega_entry.specs as of_entry
