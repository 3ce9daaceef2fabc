pub mod FirstLaws
pub mod SliceLaws
