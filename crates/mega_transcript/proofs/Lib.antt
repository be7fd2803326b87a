pub mod Tapes
pub mod Cells
pub mod Forms
pub mod Compact
