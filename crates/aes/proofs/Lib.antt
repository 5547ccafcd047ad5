pub mod Sbox
pub mod Examples
pub mod Words
pub mod Blocks
pub mod Rounds
pub mod Keys
pub mod Bounds
