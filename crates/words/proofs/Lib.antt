pub mod BitLaws
pub mod ByteLaws
pub mod WordLaws
pub mod WalkLaws
