pub mod Rounds
pub mod Reads
pub mod Histories
pub mod Decisions
pub mod Requests
pub mod Nodes
pub use Rattle.mega_voter.specs.of_rules as of_rules
