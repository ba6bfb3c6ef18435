pub mod Times
pub mod Asking
pub mod Answer
pub mod Adding
pub mod Marking
