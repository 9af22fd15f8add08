pub mod Numbers
pub mod Judged
pub mod Listed
pub mod Sealed
pub mod Written
