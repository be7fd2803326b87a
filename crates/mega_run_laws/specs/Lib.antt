pub mod Shows
pub mod Justified
pub mod Usages
pub mod Examples
pub use Rattle.mega_tape_laws.specs.of_promises as of_promises
pub use Rattle.mega_tape_laws.specs as of_tape_laws
pub use Rattle.mega_tape_laws.specs.of_transcript as of_transcript
pub use Rattle.mega_tape_laws.specs.of_rules as of_rules
