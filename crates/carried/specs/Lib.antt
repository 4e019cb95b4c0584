-- Callers of the C interface that carry the operations out themselves.
pub mod Carried
