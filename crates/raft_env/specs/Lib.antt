pub mod Outcomes
pub mod Directory
pub mod Moments
pub mod Refusal
pub mod PathParts
pub mod Consistent
