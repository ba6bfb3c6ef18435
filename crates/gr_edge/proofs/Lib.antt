pub mod Walks
pub mod Asking
pub mod Joined
pub mod Widening
pub mod Passing
