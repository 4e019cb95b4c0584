pub mod LineLaws
pub mod PairLaws
pub mod ValidLaws
