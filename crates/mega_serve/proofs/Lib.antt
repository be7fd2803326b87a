pub mod Words
pub mod Gathered
pub mod Going
pub mod Stepped
pub mod Joining
pub mod Ending
pub mod Failing
pub use Rattle.mega_page.proofs.Giving
