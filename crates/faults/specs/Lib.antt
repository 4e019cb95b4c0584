-- The faults of SPECIFICATION 18.1, a format that was not flushed (4.5), and a module opened as the wrong kind (8.10).
pub mod Faults
pub mod Unflushed
pub mod WrongKind
