pub mod Tables
pub mod Rounds
pub mod Keys
pub mod Cipher
pub mod Keyed
pub mod law
