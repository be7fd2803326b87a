pub mod Carries
pub mod Faults
pub mod Fusing
pub mod Kept
pub mod LogFuses
pub mod Members
pub mod Starting
pub mod Stepping
pub mod Waits
pub use Rattle.mega_handler.specs as of_handler
pub use Rattle.mega_meanings.specs as of_meanings
pub use Rattle.mega_outcome.specs as of_outcome
pub use Rattle.mega_voter.specs as of_voter
pub use Rattle.mega_node_laws.specs as of_node_laws
pub use Rattle.mega_leases.specs as of_leases
pub use Rattle.mega_promises.specs as of_promises
pub use Rattle.mega_durable.specs as of_durable
