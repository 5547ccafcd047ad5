pub mod Number
pub mod Lanes
pub mod Blocks
pub mod Output
pub mod Shake
pub mod Tables
