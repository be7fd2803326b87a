pub mod Joining
pub mod Contents
pub mod Tokens
pub mod Trees
pub mod Whole
