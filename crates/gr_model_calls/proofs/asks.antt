-- What is asked, and when
pub mod AskMoments
pub mod CallTicks
