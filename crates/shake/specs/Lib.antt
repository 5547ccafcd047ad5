pub mod Keccak
pub mod Shake
pub mod Held
