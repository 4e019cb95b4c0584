pub mod DiscardLaws
