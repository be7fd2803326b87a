pub mod Named
pub mod Mail
pub mod Boxes
pub mod Picks
pub mod Followed
pub mod Applied
