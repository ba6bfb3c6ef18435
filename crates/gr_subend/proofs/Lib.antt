pub mod Saying
pub mod Ticks
pub mod Handing
