pub mod Knowing
pub mod Standing
pub mod Opening
pub mod Found
pub mod News
pub mod Cuts
