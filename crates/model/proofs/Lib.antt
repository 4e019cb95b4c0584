-- The proofs of the model: rules on small instances and what the statements permit, both from the definitions alone; laws of
-- the definitions, the crash argument, demand 3, its sisters, and a format made durable.
pub mod Anchors
pub mod Allowed
pub mod Laws
pub mod Argument
pub mod CrashSafety
pub mod Domains
pub mod Beside
pub mod Sisters
pub mod FlushDurable
pub mod DiscardRestores
pub mod States
pub mod SameCheckpoint
pub mod FreeBackups
pub mod Shares
pub mod CleanSegments
