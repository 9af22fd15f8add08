pub mod Traces
pub mod Promise
pub mod Examples
pub mod Answers
pub mod Meaning
pub mod Buffers
pub mod Runs
pub mod Bench
