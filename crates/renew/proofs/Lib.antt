pub mod EachLaws
pub mod SameLaws
