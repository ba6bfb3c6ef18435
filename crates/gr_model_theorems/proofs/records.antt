-- What is logged, and the lines that say so
pub mod Records
pub mod Recorded
pub mod RecordLines
pub mod RecordSteps
pub mod Standings
pub mod Stored
pub mod Doubtlines
pub mod NamedLines
