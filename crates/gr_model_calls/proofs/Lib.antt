pub mod calls
pub mod runs
pub mod asks
pub mod rules
pub mod topology
pub mod joins
