pub mod ReadingRows
pub mod ReadingAnswers
pub mod Kinds
pub mod Taking
pub mod ReadingItems
pub mod Telling
