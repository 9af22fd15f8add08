pub mod Plans
pub mod Keys
pub mod Sealing
pub mod Packed
pub mod Laws
pub mod Steps
