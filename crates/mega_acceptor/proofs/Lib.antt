pub use Rattle.mega_ballot.proofs as of_ballot
pub use Rattle.mega_entry.proofs as of_entry
