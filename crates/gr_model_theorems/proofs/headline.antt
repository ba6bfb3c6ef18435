-- The headline, put together
pub mod ReplyLines
pub mod SoFar
pub mod WithoutSweeps
pub mod AfterSweeps
pub mod SecondReaches
pub mod Standing
pub mod SettlesAll
pub mod SettlesAlways
pub mod Examples
