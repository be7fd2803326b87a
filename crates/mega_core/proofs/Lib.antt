pub mod Roles
pub mod Fitting
pub mod Alike
pub mod Silent
pub mod Walking
pub mod Walked
pub mod Ended
pub mod Begun
pub mod Messages
pub mod Clocks
pub mod Refused
pub mod Untouched
pub mod Watched
pub mod Lags
pub mod Anew
pub mod Quiet
pub mod Unshown
pub use Rattle.mega_step_parts.proofs as of_step_parts
pub use Rattle.mega_actions.proofs.of_node_laws as of_node_laws
