pub mod Names
pub mod Tokens
pub mod Reading
pub mod Stops
pub mod Grammar
pub mod Whole
pub mod Refusal
