-- Laws of the definitions, a file for each file of specs/ that has laws, by the same name.

-- ranges, words and places
pub mod Range
pub mod Words
pub mod Layout
-- refusals: which number a list gives, and demand 1
pub mod Status
pub mod Refusals
-- metadata, session, operations, what a call answers
pub mod Container
pub mod Clients
pub mod Session
pub mod Ops
pub mod Domain
pub mod Outcome
-- the calls
pub mod Replay
pub mod Format
pub mod Open
pub mod Write
pub mod Discard
pub mod NewBackup
pub mod Span
pub mod FreeBackups
pub mod Checkpoint
pub mod Same
-- how many operations a call has, and traces that suffice
pub mod Counts
pub mod Traces
pub mod TraceLength
-- what no call reads; flushes in main segments that are not dirty; what a crash may leave; what demand 3 does not leave open
pub mod Unread
pub mod CleanSegments
pub mod Crash
pub mod CrashSafety
