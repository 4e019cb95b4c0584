pub mod NumberLaws
pub mod AppendedLaws
