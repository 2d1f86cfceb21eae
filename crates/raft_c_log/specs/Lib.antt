pub mod Calls
pub mod Closing
pub mod Groups
pub mod Joined
pub mod Limit
pub mod Opening
pub mod Outcomes
pub mod Refusals
