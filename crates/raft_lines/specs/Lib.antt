pub mod Line
pub mod Program
pub mod Settings
