pub mod Events
pub mod Notes
pub mod Placed
pub mod Positions
pub mod Touching
pub mod Replying
pub mod News
pub mod Fetching
pub mod Listening
pub use Rattle.mega_step_choices.specs.Behind
pub use Rattle.mega_step_choices.specs.Hearing
pub use Rattle.mega_step_choices.specs.Staging
pub use Rattle.mega_step_work.specs as of_step_work
pub use Rattle.mega_step_work.specs.of_voter as of_voter
pub use Rattle.mega_step_work.specs.of_leases as of_leases
pub use Rattle.mega_step_work.specs.of_operations as of_operations
