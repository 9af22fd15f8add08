pub mod Calls
pub mod Laws
pub mod Paged
pub mod State
pub mod law
