pub mod Faults
pub use Rattle.mega_backup_rows.specs.Places
pub mod Texts
pub mod Words
pub mod Lines
pub mod Restoring
pub mod Spelling
