pub mod Within
pub mod Roots
pub mod Committing
pub mod Columns
pub mod ResultLines
pub mod Openings
pub mod Signing
