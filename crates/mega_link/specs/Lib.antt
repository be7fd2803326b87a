pub mod Datagrams
pub mod Readings
pub mod GivenList
pub mod Memory
