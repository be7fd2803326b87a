pub mod BallotLaws
pub mod Ballots
pub mod Order
pub mod Quorums
