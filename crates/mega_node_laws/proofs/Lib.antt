pub mod Logs
pub mod Followed
pub mod Owned
pub mod Applied
pub mod Rounds
pub mod Reading
pub mod Acting
pub mod Walk
pub mod Lasting
pub mod Within
pub mod KeptBySending
pub mod Ending
pub mod Completed
pub mod Sent
pub use Rattle.mega_replica.proofs as of_replica
