pub mod Applying
pub mod Stored
pub mod Following
pub mod Puts
pub mod Used
pub use Rattle.mega_index.specs as of_index
pub use Rattle.mega_wal.specs as of_wal
