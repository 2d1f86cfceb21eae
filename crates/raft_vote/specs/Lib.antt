pub mod HardState
pub mod Stays
