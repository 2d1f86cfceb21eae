pub mod Check
pub mod Holes
