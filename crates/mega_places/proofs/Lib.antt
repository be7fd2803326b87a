pub mod Anew
pub mod Breaking
pub mod Carrying
pub mod Dropping
pub mod Failing
pub mod Finding
pub mod Fuses
pub mod Joining
pub mod Least
pub mod Outcomes
pub mod Plain
pub mod Sending
pub mod Staying
pub mod StepsMade
pub use Rattle.mega_meanings.proofs as of_meanings
pub use Rattle.mega_transcript.proofs as of_transcript
pub use Rattle.mega_voter.proofs as of_voter
pub use Rattle.mega_node_laws.proofs as of_node_laws
pub use Rattle.mega_durable.proofs as of_durable
