pub mod Stepped
pub mod Driven
