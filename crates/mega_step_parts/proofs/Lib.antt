pub mod Left
pub mod Sent
pub mod Portions
pub mod Groups
mod Unheard
mod Parted
pub use Rattle.mega_step_choices.proofs.Staged
pub use Rattle.mega_step_work.proofs.of_voter as of_voter
pub use Rattle.mega_step_work.proofs.of_leases as of_leases
pub use Rattle.mega_step_work.proofs.of_operations as of_operations
