pub mod Named
pub mod Readable
