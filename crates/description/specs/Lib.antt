pub mod Text
pub mod Limits
pub mod Words
pub mod Judge
pub mod Scan
pub mod Meaning
pub mod Laws
pub mod Kinds
