pub mod Symmetric
pub mod Keys
pub mod Commit
pub mod Alpha
pub mod Challenge
pub mod Scheme
