pub use Rattle.mega_syntax.specs.Names
pub use Rattle.mega_syntax.specs.Tokens
pub use Rattle.mega_syntax.specs.Reading
pub use Rattle.mega_syntax.specs.Grammar
pub use Rattle.mega_syntax.specs.Whole
pub mod Named
pub mod Lookup
pub mod Rules
pub mod Known
pub mod Declare
pub mod Verdict
pub mod Shaping
pub use Rattle.mega_syntax.specs as of_syntax
