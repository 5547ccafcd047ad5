pub mod Expanded
pub mod Purpose
