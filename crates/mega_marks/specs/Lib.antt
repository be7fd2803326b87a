pub mod Marked
pub mod AreMarked
pub use Rattle.mega_node_laws.specs as of_node_laws
