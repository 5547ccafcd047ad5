pub mod Leaf
pub mod Hashed
pub mod Signer
pub mod Checker
