pub mod Blocks
pub mod Keys
pub mod Routines
pub mod Apart
pub mod Hash
