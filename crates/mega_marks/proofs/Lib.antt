mod Taking
mod Applied
mod Onward
mod Found
pub mod Growing
pub use Rattle.mega_node_laws.proofs as of_node_laws
