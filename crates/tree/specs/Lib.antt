pub mod Tree
pub mod Layers
