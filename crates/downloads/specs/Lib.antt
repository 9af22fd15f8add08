pub mod Marks
pub mod Copies
pub mod Frames
pub mod Blocks
pub mod Pages
pub mod Received
pub mod Verdicts
pub mod States
