pub mod Places
pub mod Checks
pub mod Reads
pub mod Changes
pub mod Outcome
pub mod Answers
pub mod Turns
pub mod Looks
pub mod Steps
pub mod Numbers
pub mod Lengths
pub mod Naming
pub mod Extends
pub mod Group
pub use Rattle.mega_index.specs as of_index
