pub mod Made
pub mod Acted
pub mod Restarting
pub mod Standing
pub mod Stepping
pub mod Unshown
pub use Rattle.mega_lag.specs.Lagging
pub use Rattle.mega_step_parts.specs as of_step_parts
pub use Rattle.mega_actions.specs as of_actions
pub use Rattle.mega_actions.specs.of_node_laws as of_node_laws
pub use Rattle.mega_actions.specs.of_view as of_view
pub use Rattle.mega_actions.specs.of_view.Served
pub use Rattle.mega_node_events.specs as of_node_events
pub use Rattle.mega_node_events.specs.Represents
pub use Rattle.mega_node_events.specs.Faults
