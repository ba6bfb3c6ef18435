pub mod Replayed
pub mod Going
pub mod Over
