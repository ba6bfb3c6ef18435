-- What is cut, and in which order cuts and handed over events stand
pub mod Cutlines
pub mod CutOrder
pub mod Orders
pub mod Ordering
