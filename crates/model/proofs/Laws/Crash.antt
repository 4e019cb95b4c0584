-- The crash relation is the sentence of SPECIFICATION 7.2, no more and no less (specs/CrashExact.antt), proved.
pub mod Floor
pub mod Sentence
pub mod Images
pub mod LeftOut
pub mod Flushes
pub mod Count
