pub mod LinesRead
pub mod Pieces
pub mod Runs
pub mod ScenarioRead
pub mod TopologyRead
pub mod TurnsRead
