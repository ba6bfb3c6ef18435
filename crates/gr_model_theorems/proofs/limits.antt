-- Every tick, event and frame within its limits
pub mod SpelledRuns
pub mod SpelledCalls
pub mod Spelled
