mod Links
pub mod Heard
