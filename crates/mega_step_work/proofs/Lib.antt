pub mod Doing
pub use Rattle.mega_voter.proofs as of_voter
pub use Rattle.mega_leases.proofs as of_leases
pub use Rattle.mega_operations.proofs as of_operations
