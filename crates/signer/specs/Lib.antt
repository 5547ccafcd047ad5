pub mod State
pub mod Written
