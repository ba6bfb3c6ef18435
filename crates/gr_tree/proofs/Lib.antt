pub mod Numbers
pub mod Links
pub mod Growing
pub mod Whole
pub mod Paths
pub mod AnyRoot
pub mod Steps
