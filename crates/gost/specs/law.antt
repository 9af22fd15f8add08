pub mod Narrow
pub mod Nibbles
pub mod Feistel
pub mod Undoing
