pub mod DumpText
pub mod Room
