pub mod Builder
pub mod Machines
pub mod Workers
pub mod Parts
pub mod Reading
pub mod Opened
