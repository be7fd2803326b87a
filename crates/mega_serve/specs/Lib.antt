pub mod Wishes
pub mod Replies
pub mod Stepping
pub mod Turns
pub use Rattle.mega_page.specs as of_page
pub use Rattle.mega_page.specs.Lines
pub use Rattle.mega_page.specs.Causes
pub use Rattle.mega_page.specs.Pages
