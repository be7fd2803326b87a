pub mod Items
pub mod Cells
pub mod Invalidations
pub mod Serving
pub mod Validation
pub use Rattle.mega_valid_laws.specs as of_valid_laws
pub use Rattle.mega_valid_laws.specs.of_settled_laws as of_settled_laws
pub use Rattle.mega_lease_laws.specs.of_run_laws as of_run_laws
