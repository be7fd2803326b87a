mod Numbers
pub mod RowKeys
mod Ranges
mod Adding
mod Scanned
pub mod Listed
pub mod Found
pub mod Grouped
mod Elsewhere
