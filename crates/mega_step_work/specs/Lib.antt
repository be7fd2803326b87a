pub use Rattle.mega_step_choices.specs.Settings
pub mod Actions
pub mod Working
pub mod Completed
pub mod Reaching
pub mod Servable
pub use Rattle.mega_voter.specs as of_voter
pub use Rattle.mega_leases.specs as of_leases
pub use Rattle.mega_operations.specs as of_operations
