pub mod Images
pub mod Reports
pub mod Filled
