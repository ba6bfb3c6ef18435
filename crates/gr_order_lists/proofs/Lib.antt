pub mod PlacedLists
pub mod ReadyLists
pub mod Taking
