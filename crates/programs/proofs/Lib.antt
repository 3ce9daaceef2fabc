pub mod MachineLaws
pub mod Pieces
pub mod ReadingLaws
