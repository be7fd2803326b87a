pub mod Formed
pub mod Opening
pub mod Owing
pub mod Restarting
pub mod Showing
pub mod Shown
pub mod AtRun
pub mod Last
pub use Rattle.mega_places.specs.of_durable.of_core as of_core
