pub mod Journal
pub mod Telling
pub mod Holding
pub mod Used
pub use Rattle.mega_rules.specs as of_rules
pub use Rattle.mega_rules.specs.of_read as of_read
