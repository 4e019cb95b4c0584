pub mod StateLaws
pub mod StatusLaws
