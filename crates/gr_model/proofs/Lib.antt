pub mod Ordering
pub mod NetOf
pub mod NetWords
pub mod BlankOf
