mod Onward
pub mod Leaving
mod Within
mod InTurn
mod Unmoved
mod Begun
mod Turned
pub use Rattle.mega_answers.proofs.of_pumps as of_pumps
pub use Rattle.mega_answers.proofs.of_marks as of_marks
pub use Rattle.mega_answers.proofs.of_node_laws as of_node_laws
