pub mod Needed
pub mod Matches
pub mod Marked
pub mod Index
pub mod Code
