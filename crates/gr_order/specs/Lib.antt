pub mod Order
pub mod Merge
pub mod Law
