pub mod Members
pub mod Rounds
pub use Rattle.mega_wal.specs as of_wal
pub use Rattle.mega_wire.specs as of_wire
