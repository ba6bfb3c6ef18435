pub mod Values
pub mod Order
pub mod OrderLaws
pub mod Clash
pub mod Forget
pub mod Events
