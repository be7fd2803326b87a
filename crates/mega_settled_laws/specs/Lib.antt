pub mod Covering
pub use Rattle.mega_run_laws.specs as of_run_laws
pub use Rattle.mega_run_laws.specs.of_tape_laws as of_tape_laws
