-- What a broker has heard, and its horizon
pub mod Heard
pub mod HeardCalls
pub mod HeardSteps
