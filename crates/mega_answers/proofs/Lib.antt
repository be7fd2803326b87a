pub mod Refused
mod Logged
pub mod Standing
mod Going
mod Shown
mod Asked
pub mod Serving
pub use Rattle.mega_step_work.proofs as of_step_work
pub use Rattle.mega_pumps.proofs as of_pumps
pub use Rattle.mega_marks.proofs as of_marks
pub use Rattle.mega_marks.proofs.of_node_laws as of_node_laws
