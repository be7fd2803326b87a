pub mod OwnEntries
