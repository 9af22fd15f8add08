pub mod Values
pub mod Kuznyechik
