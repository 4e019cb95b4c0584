pub mod BadLaws
pub mod VerdictLaws
pub mod SizeLaws
pub mod GroupLaws
pub mod ReadLaws
pub mod Corners
