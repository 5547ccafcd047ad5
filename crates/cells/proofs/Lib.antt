pub mod Character
pub mod Text
pub mod Answers
pub mod Cell
