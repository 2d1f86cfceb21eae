pub mod Held
pub mod Answers
pub mod Changes
pub mod Walk
pub mod Allowed
