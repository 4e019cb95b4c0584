pub mod Story
pub mod GroupLaws
pub mod HeaderLaws
pub mod SheetLaws
