pub mod Paging
pub mod Reporting
