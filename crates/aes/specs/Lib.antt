pub mod Sbox
pub mod Cipher
pub mod Words
