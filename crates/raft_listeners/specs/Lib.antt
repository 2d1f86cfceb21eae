pub mod Waiting
pub mod Heard
pub mod Told
pub mod Telling
