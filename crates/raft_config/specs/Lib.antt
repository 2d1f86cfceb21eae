pub mod Config
pub mod Folders
pub mod Recovery
pub mod Sanitized
