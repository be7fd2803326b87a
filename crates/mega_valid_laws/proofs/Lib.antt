pub mod Orders
pub mod Epochs
pub mod Joint
pub mod Decided
pub mod Folds
pub mod Agreeing
pub mod NoCalls
pub mod Walked
pub mod Shows
pub mod Witness
pub use Rattle.mega_settled_laws.proofs as of_settled_laws
