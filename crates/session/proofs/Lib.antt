pub mod BitLaws
pub mod GroupLaws
pub mod UnionLaws
pub mod SessionLaws
pub mod MarkedLaws
