pub mod DirtyLaws
