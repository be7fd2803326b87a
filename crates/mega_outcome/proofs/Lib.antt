pub mod OneMore
pub mod Sizes
pub mod Items
pub mod Grown
pub mod GrownChanges
pub mod Group
