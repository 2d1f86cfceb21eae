pub mod Found
pub mod Handle
pub mod Logs
