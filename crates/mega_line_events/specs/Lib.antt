pub mod Meanings
pub mod Running
pub mod Refusals
pub use Rattle.mega_shown_laws.specs.of_promises as of_promises
pub use Rattle.mega_line_laws.specs as of_line_laws
pub use Rattle.mega_world.specs as of_world
