pub mod Votes
pub mod Slots
pub use Rattle.mega_ballot.specs as of_ballot
pub use Rattle.mega_entry.specs as of_entry
