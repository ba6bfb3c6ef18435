-- The host: its horizon, and what it knows of its log
pub mod HostHorizon
pub mod BareHosts
pub mod FinalTicks
pub mod HostFinals
pub mod HostAlways
