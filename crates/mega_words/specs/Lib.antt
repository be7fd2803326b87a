pub mod Numbers
pub mod Changes
pub mod Groups
pub mod Options
pub mod Commands
