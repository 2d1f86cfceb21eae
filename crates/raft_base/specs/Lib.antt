pub mod Fault
pub mod FileId
pub mod Size
