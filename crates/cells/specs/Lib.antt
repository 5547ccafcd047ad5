pub mod Character
pub mod Cell
pub mod Answer
