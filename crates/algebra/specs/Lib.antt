pub mod Line
pub mod Pack
pub mod Folding
