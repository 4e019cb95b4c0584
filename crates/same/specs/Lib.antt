pub mod Accepted
pub mod Segment
