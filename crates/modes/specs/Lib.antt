pub mod Counters
pub mod Modes
pub mod Calls
pub mod Laws
pub mod Steps
pub mod Shown
