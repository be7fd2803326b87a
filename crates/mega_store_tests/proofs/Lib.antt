pub mod Staged
