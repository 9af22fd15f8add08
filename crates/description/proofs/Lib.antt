pub mod Steps
pub mod Ahead
pub mod Marks
pub mod Numbers
pub mod Judged
pub mod FirstBad
