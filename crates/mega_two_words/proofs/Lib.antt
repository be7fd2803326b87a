pub mod Driven
pub mod Fronts
pub mod Lines
pub mod Results
pub mod Starts
pub mod Statuses
