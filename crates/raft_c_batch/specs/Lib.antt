pub mod Batch
pub mod Parts
pub mod Refusals
