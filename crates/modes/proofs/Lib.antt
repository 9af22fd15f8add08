pub mod Joined
pub mod Undoing
pub mod Reaching
pub mod Stepping
pub mod Texts
pub mod Judged
pub mod Plain
