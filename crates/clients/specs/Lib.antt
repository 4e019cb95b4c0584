-- What the contracts of this crate cite.
pub mod Run
pub mod Words
-- Theorems of the program logic on lending, for proofs by hand; no contract cites them.
pub mod PlainCall
pub mod LentShared
pub mod Local
