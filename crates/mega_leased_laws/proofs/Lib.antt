pub mod Forms
pub mod Tails
pub mod Notes
pub mod Tapes
pub mod TapeIsMet
pub mod Locks
pub mod Cells
pub mod Obeying
pub mod Pressing
pub mod EpochReached
pub mod Epochs
pub mod Polls
pub mod Wheres
pub mod Asking
pub mod Beating
pub mod Validating
pub mod Leased
pub mod Counting
pub mod Safety
pub mod Held
pub mod Tops
pub use Rattle.mega_valid_laws.proofs as of_valid_laws
pub use Rattle.mega_valid_laws.proofs.of_settled_laws as of_settled_laws
pub use Rattle.mega_lease_laws.proofs.of_run_laws as of_run_laws
