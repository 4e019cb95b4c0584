pub mod LineLaws
pub mod NameLaws
pub mod NumberLaws
pub mod HexLaws
