pub mod Lanes
pub mod Put
