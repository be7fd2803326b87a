pub mod Met
pub mod Members
pub mod Clock
pub mod Voting
pub mod Kept
pub mod Logs
pub mod Locks
pub mod Coordinators
pub mod Replies
pub mod Queues
pub mod Operations
pub mod Finding
pub mod Acting
pub mod Steps
pub mod Examples
pub use Rattle.mega_replica.specs as of_replica
pub use Rattle.mega_read.specs as of_read
