pub mod Catching
pub use Rattle.mega_propose.specs as of_propose
pub use Rattle.mega_propose.specs.of_wire as of_wire
