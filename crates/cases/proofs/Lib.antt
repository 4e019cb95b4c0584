-- The bench cases, computed: one run, what lets the checker compute, what a call leaves, the table, how a history starts, what is shown after
-- a crash inside a checkpoint, that of P4, the first checkpoint after a restart, long registrations, two clients, edits dropped, kind 1, and main segments
-- saved with zeros.
pub mod Turns
pub mod Compute
pub mod Blocks
pub mod Goes
pub mod Quick
pub mod Follow
pub mod Table
pub mod Starts
pub mod Shown
pub mod Cut
pub mod FirstLife
pub mod Restored
pub mod Long
pub mod Consoles
pub mod Discards
pub mod Eadr
pub mod Silent
