pub mod Images
pub mod Entries
pub mod Meaning
pub mod Files
pub mod Seals
pub mod Written
