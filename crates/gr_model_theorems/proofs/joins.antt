-- Runs with joins
pub mod Owing
pub mod AsOne
pub mod Always
pub mod Over
pub mod Serving
pub mod Telling
pub mod Served
pub mod Joint
pub mod Late
