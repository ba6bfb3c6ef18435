pub mod Placing
pub mod Members
pub mod Horizons
pub mod Following
pub mod Prefix
pub mod Keeping
