mod Fronts
mod Onward
mod Noted
mod Caught
mod Marked
mod Entered
pub mod Lasting
