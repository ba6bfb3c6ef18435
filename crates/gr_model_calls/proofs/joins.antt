-- A run in which each call sees the joins that its view holds, and the run on one net
pub mod Growing
pub mod SameCalls
pub mod OneRun
pub mod Opened
