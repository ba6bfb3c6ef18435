pub mod Offered
pub mod Gathered
pub mod Traced
pub mod Wrote
