-- The counterexamples: what they share, one file a fault, and all of them together; what was not flushed; and a wrong kind of module.
pub mod Shown
pub mod Alone
pub mod TwoCalls
pub mod EarlyState
pub mod ClearedMarks
pub mod SkippedCopy
pub mod InactiveLine
pub mod FirstMarked
pub mod DiscardClears
pub mod Faults
pub mod BrokenOff
pub mod Unflushed
pub mod WrongKind
