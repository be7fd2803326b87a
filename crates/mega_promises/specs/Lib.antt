pub mod Items
pub mod Messages
pub mod Looks
pub mod Runs
pub mod Promises
pub mod Fresh
pub mod Moments
pub mod Causes
pub mod Handling
pub mod Calm
pub mod NodeRuns
pub mod Served
pub mod Records
pub mod Worked
pub use Rattle.mega_rules.specs as of_rules
pub use Rattle.mega_transcript.specs as of_transcript
pub use Rattle.mega_schedule.specs as of_schedule
pub use Rattle.mega_rules.specs.of_read as of_read
pub use Rattle.mega_rules.specs.of_replica as of_replica
