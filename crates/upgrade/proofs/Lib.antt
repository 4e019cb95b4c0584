pub mod RewritingLaws
pub mod AnswerLaws
pub mod OldSheets
