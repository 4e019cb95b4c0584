-- The crash argument, from single operations to the calls of a history.

-- operations: which bytes they leave alone, which lines are settled, runs of them, phases that a fence ends
pub mod Persist
pub mod Settled
pub mod Runs
pub mod Phases
-- what a container holds, what recovers to it, and what holds between calls
pub mod Holds
pub mod GivenBackup
pub mod View
pub mod Invariant
-- the operations of each call, crashed and played whole; Stores is what a write's span and a discard have in common
pub mod Recovery
pub mod Copy
pub mod Stores
pub mod SpanWords
pub mod Span
pub mod Write
pub mod Discard
pub mod Checkpoint
-- pages; where a history stands; each call meets the argument; the openings around a history
pub mod Pages
pub mod Stands
pub mod OpenCall
pub mod WriteCall
pub mod DiscardCall
pub mod CheckpointCall
pub mod Openings
