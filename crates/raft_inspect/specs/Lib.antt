pub mod Behind
pub mod Checks
pub mod Cuts
pub mod Failing
pub mod Kept
pub mod Listed
pub mod Losses
