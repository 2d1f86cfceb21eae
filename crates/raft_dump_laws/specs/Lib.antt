pub mod Passed
pub mod Planned
