-- The rules, tick by tick: each call obeys one, and a rule leaves no choice
pub mod Views
pub mod CallRules
pub mod HostRules
pub mod Forgetting
pub mod Determined
pub mod Answering
pub mod Forwarding
pub mod Serves
pub mod SweepAsks
pub mod ErasedRules
