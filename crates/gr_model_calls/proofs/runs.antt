-- Schedules: what every step keeps, and relations over whole runs
pub mod Worlds
pub mod Schedules
pub mod Closed
pub mod Chains
pub mod Clash
pub mod LeastClash
pub mod Seeing
