pub mod Lowest
pub mod Tape
pub mod Horner
pub mod Folds
pub mod Values
