pub mod Values
pub mod Order
pub mod OrderLaws
pub mod Wants
pub mod Moments
pub mod MomentLaws
pub mod Due
