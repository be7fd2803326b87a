pub mod Fitting
pub mod OfFormat
pub mod Examples
pub use Rattle.mega_format_laws.specs as of_format_laws
pub use Rattle.mega_plain_laws.specs as of_plain_laws
pub use Rattle.mega_promises.specs as of_promises
pub use Rattle.mega_run_laws.specs as of_run_laws
pub use Rattle.mega_tape_laws.specs as of_tape_laws
