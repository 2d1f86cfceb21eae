pub mod Calls
pub mod Folder
pub mod Mirror
pub mod Names
