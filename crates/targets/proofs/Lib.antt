mod Answered
pub mod Kept
mod Pages
mod Put
