pub mod SameLaws
pub mod TestLaws
