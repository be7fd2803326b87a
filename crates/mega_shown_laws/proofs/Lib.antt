pub mod Writes
pub mod Outcomes
pub mod Logs
pub mod Rows
pub mod Causes
pub mod Runs
pub mod Plain
pub mod OneTape
pub mod Named
pub mod Clusters
pub mod Users
pub use Rattle.mega_answer_laws.proofs as of_answer_laws
pub use Rattle.mega_format_laws.proofs as of_format_laws
pub use Rattle.mega_row_laws.proofs as of_row_laws
pub use Rattle.mega_run_laws.proofs as of_run_laws
pub use Rattle.mega_tape_laws.proofs as of_tape_laws
