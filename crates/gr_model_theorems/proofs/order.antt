-- One order over all publishers: what is told of it is what it is to be
pub mod Told
pub mod Hearing
pub mod Merged
pub mod Steadily
pub mod Always
pub mod OneOrder
pub mod Unheard
pub mod OverLogs
pub mod Served
