pub mod Horizon
pub mod Said
pub mod Deliveries
