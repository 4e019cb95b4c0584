-- The bench cases of SPECIFICATION 17: how a history shares one run of records, the table, the crash inside P4, the first checkpoint
-- after a restart, long registrations, two clients on one board, edits dropped, the bench on a module of kind 1, and levels saved with zeros.
pub mod Turns
pub mod Table
pub mod Cut
pub mod Restored
pub mod Long
pub mod Consoles
pub mod Discards
pub mod Eadr
pub mod Silent
