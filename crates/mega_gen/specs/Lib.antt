pub mod Draws
pub mod Lines
pub mod Pages
pub mod Blocks
pub mod Generated
