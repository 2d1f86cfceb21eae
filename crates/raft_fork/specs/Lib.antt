pub mod Fork
pub mod Refused
pub mod Calls
