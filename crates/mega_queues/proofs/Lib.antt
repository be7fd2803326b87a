pub mod Naming
pub mod Mailing
pub mod Placing
pub mod Posting
pub mod Noting
pub mod Picking
pub mod Lengths
pub mod HaveEntries
