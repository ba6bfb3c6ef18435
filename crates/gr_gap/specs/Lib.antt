pub mod Row
pub mod Blocks
pub mod Contents
pub mod Sticky
pub mod Ownership
