pub mod Advance
pub mod Checkpointed
