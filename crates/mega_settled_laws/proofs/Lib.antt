pub mod Tapes
pub mod Rounds
pub mod Walk
pub mod Reading
pub mod Turns
pub mod Settle
pub mod Steps
pub mod Runs
pub mod Behind
pub mod Answering
pub use Rattle.mega_run_laws.proofs as of_run_laws
pub use Rattle.mega_run_laws.proofs.of_tape_laws as of_tape_laws
