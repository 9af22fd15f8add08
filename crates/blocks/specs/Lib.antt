pub mod Bytes
pub mod Ciphers
