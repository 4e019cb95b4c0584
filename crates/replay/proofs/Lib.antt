pub mod JudgeLaws
pub mod ReplayLaws
