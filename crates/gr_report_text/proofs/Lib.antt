pub mod JoinsWords
pub mod RunWords
pub mod Rows
