pub mod OneNet
pub mod Truth
pub mod Said
pub mod Steady
pub mod Fits
pub mod Edges
pub mod Rules
