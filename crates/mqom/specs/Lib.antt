pub mod Outcome
pub mod Calls
pub mod Words
pub mod Fields
pub mod Answer
