pub mod Acting
pub mod Telling
pub mod Behind
pub use Rattle.mega_run_laws.proofs as of_run_laws
pub use Rattle.mega_node_laws.proofs as of_node_laws
