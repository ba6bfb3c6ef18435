pub mod Families
