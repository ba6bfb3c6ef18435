pub mod Walked
pub mod Untouched
