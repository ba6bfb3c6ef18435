pub mod Behaves
pub mod Numbered
pub mod OneRun
