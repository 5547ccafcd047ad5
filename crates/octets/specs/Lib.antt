pub mod Xor
pub mod Lists
pub mod Place
