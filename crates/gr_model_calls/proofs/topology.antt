-- The tree of brokers, and that each frame goes over one of its edges
pub mod BlankNet
pub mod Strays
