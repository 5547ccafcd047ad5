pub mod Files
pub mod Failure
