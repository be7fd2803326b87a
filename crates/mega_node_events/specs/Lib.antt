pub mod Kind
pub mod Represents
pub mod Standing
pub mod Faults
pub mod Taking
pub mod Ticking
pub mod Beginning
