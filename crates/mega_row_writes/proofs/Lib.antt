pub mod Turning
pub use Rattle.mega_entry.proofs as of_entry
