pub mod Kept
pub mod Epochs
pub mod Validity
