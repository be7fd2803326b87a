pub mod Leases
pub mod Showing
pub mod Examples
pub use Rattle.mega_settled_laws.specs as of_settled_laws
