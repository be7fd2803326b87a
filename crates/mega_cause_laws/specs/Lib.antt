pub mod LogTells
pub use Rattle.mega_run_laws.specs as of_run_laws
