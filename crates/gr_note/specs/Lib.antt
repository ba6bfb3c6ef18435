pub mod Bytes
pub mod Decode
pub mod Fault
pub mod Gives
pub mod Limits
pub mod Nodes
