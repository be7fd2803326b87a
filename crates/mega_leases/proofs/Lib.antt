pub mod Shown
pub mod Bodies
pub mod Noted
pub mod Ticked
pub mod Opened
