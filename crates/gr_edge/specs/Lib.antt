pub mod Pass
pub mod Lates
pub mod Listing
pub mod Asked
pub mod Following
