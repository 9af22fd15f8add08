pub mod Pi
pub mod Field
pub mod Steps
pub mod Keys
pub mod Cipher
pub mod law
