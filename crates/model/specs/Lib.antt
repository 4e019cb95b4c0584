-- What a reader must believe: definitions and statements, in the order of docs/SPECIFICATION.md.
-- ranges of numbers; places and sizes of an image; words
pub mod Range
pub mod Layout
pub mod Words
-- numbers of refusals; metadata; session; operations and trace; records of clients; what a call answers; replay
pub mod Status
pub mod Container
pub mod Session
pub mod Ops
pub mod Clients
pub mod Outcome
pub mod Replay
-- the calls: format, opening, write, discard, checkpoint, reads, same checkpoint
pub mod Format
pub mod Open
pub mod Write
pub mod Discard
pub mod Checkpoint
pub mod Reads
pub mod Same
-- what is counted: write-backs, main segments that an opening treats, dirty blocks
pub mod Counts
-- demand 1: refusals
pub mod Refusals
-- demands 2 and 3: the reference model, histories, what a crash may leave, the statements
pub mod Reference
pub mod History
pub mod Crash
pub mod CrashSafety
pub mod Sisters
pub mod Domains
pub mod FlushDurable
-- further statements: what no call reads, which backup segment a write takes, what it meets, what a discard restores, the epoch, segment states and pairs, which
-- images have the same checkpoint, free backup segments, what a share guarantees, main segments that are not dirty, lengths of a trace, the crash relation taken apart
pub mod Unread
pub mod NewBackup
pub mod Span
pub mod DiscardRestores
pub mod EpochCounts
pub mod States
pub mod SameCheckpoint
pub mod FreeBackups
pub mod Shares
pub mod CleanSegments
pub mod TraceLength
pub mod CrashExact
