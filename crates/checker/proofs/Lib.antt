pub mod Evaluating
pub mod Recomputing
pub mod Lent
pub mod Verdict
