pub mod Log
pub mod Answers
pub mod Cuts
pub mod End
pub mod Uses
pub mod Opening
pub mod Found
