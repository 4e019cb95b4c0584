pub mod ActionLaws
pub mod RecoveryLaws
