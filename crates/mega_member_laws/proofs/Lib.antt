pub mod Members
pub mod Rounds
pub mod Reading
pub mod Histories
pub mod Replies
pub mod Acting
pub mod Steps
pub mod Headers
pub use Rattle.mega_format_laws.proofs as of_format_laws
