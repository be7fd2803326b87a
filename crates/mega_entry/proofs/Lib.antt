pub mod Cutting
pub mod Sames
