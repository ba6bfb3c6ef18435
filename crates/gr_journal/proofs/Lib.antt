pub mod Cuts
pub mod Hex
pub mod InOrder
pub mod Naming
pub mod Wording
