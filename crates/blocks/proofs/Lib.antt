pub mod PartLaws
pub mod TestLaws
