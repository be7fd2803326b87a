pub mod Lagging
