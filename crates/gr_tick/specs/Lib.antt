pub mod Laws
pub mod Runs
pub mod Stored
pub mod Kept
pub mod Levels
pub mod Listed
