pub mod TurnResults
