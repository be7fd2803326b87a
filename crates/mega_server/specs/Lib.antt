pub mod Causes
pub mod Forming
pub mod Serving
pub use Rattle.mega_durable.specs.of_core as of_core
pub use Rattle.mega_durable.specs as of_durable
