pub mod Said
pub mod Queued
