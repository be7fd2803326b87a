pub mod Waiting
pub mod Stocked
pub mod Answered
pub mod Proposed
pub mod Ready
pub mod Next
pub mod Examples
