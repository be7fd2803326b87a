pub mod Places
pub mod Lawful
pub mod Chosen
pub mod Settled
pub mod Writes
pub mod Indexed
pub mod Answers
pub mod Polls
pub mod Examples
pub mod IndexExamples
pub mod Growing
pub mod GrowingExamples
pub use Rattle.mega_promises.specs as of_promises
pub use Rattle.mega_promises.specs.of_rules as of_rules
pub use Rattle.mega_promises.specs.of_transcript as of_transcript
pub use Rattle.mega_promises.specs.of_schedule as of_schedule
pub use Rattle.mega_promises.specs.of_read as of_read
pub use Rattle.mega_promises.specs.of_replica as of_replica
