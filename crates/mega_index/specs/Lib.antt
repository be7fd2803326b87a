pub use Rattle.mega_row_writes.specs.Rows
pub use Rattle.mega_row_writes.specs.Pending
pub mod Cells
pub mod Fits
pub mod Entries
pub mod LocalWrites
pub mod Finding
pub mod Fitted
pub mod Answers
pub mod Marks
pub mod Hints
pub mod Wanted
pub mod Keeping
pub mod Forgetting
pub use Rattle.mega_row_writes.specs.of_entry as of_entry
pub use Rattle.mega_keys.specs as of_keys
pub use Rattle.mega_schema.specs as of_schema
pub use Rattle.mega_schema.specs.of_syntax as of_syntax
