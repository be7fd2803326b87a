pub mod Spelling
pub mod Fit
pub mod Answers
pub mod Reading
pub mod Order
pub mod Refusal
