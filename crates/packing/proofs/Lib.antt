pub mod Entered
pub mod Tags
pub mod Drafted
pub mod Sectioned
pub mod Filled
pub mod Granted
