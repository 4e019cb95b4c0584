pub mod TextLaws
pub mod UnlikeNamed
