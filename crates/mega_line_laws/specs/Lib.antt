pub mod Clusters
pub mod Meanings
