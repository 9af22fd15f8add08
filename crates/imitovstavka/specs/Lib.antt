pub mod Chain
pub mod Parts
