pub mod Messages
pub mod Rounds
pub mod Reads
pub mod Nodes
pub use Rattle.mega_format_laws.specs as of_format_laws
