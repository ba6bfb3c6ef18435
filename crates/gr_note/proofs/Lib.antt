pub mod Fields
pub mod Spelled
pub mod Told
pub mod Submitted
