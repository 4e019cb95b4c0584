pub mod SameText
pub mod UnlikeNamed
