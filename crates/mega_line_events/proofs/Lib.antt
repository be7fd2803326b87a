pub mod Caused
pub mod Declared
pub mod Formed
pub mod Holding
pub mod Joint
pub mod Plain
pub mod Running
pub use Rattle.mega_line_laws.proofs as of_line_laws
