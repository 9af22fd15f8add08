pub mod Spelled
pub mod Words
pub mod Lengths
pub mod Xors
