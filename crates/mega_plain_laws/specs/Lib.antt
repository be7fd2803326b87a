pub mod Answers
pub mod Formed
pub use Rattle.mega_field_ranges.specs as of_field_ranges
