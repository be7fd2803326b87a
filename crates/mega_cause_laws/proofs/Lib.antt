pub mod LogTells
pub use Rattle.mega_run_laws.proofs as of_run_laws
