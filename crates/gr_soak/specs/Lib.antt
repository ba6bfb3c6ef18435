pub mod Text
pub mod Steps
pub mod Summary
pub mod Report
