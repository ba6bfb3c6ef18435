pub mod Came
pub mod Moves
pub mod Client
pub mod Ran
pub mod Run
pub mod Turns
pub mod Laws
