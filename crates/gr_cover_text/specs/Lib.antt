pub mod Covers
pub mod Putting
pub mod Reading
