pub mod FindLaws
pub mod LocatedLaws
