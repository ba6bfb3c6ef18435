pub mod Gives
pub mod Keys
pub mod Matching
pub mod Reading
pub mod Refusals
