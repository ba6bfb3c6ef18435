pub mod Answer
pub mod Candidates
pub mod Covering
pub mod Mentions
