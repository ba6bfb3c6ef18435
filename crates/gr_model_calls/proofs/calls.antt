-- One call of one broker: what it sends, tells and keeps, and that it keeps what is true
pub mod Pieces
pub mod Passed
pub mod TruthTicks
pub mod CallTruth
pub mod HostCases
pub mod Cutting
pub mod Calls
pub mod Told
pub mod Telling
pub mod Erased
pub mod Held
