pub mod Gives
pub mod Groups
pub mod Hosting
pub mod Lines
pub mod Parts
pub mod Words
