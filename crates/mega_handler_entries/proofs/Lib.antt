mod Kept
mod Handled
