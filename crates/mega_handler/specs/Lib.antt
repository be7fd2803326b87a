pub mod Effects
pub mod Named
