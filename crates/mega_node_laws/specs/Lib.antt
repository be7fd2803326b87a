pub mod Deciding
pub mod Own
pub mod Asking
pub mod About
pub mod Acted
pub mod Sending
