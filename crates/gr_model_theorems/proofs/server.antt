-- Old logs, arrivals, and the headline of a server
pub mod Opening
pub mod OpenedLines
pub mod OverLogs
pub mod OpensByRules
pub mod OpenedFits
pub mod CutEvents
pub mod Arriving
pub mod Serving
pub mod ServedOver
pub mod Lanes
pub mod CallLines
pub mod ServedExample
pub mod Joint
