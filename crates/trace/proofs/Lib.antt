pub mod EmitLaws
pub mod CallLaws
pub mod WalkLaws
