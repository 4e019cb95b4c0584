pub mod SteppedLaws
pub mod Driven
