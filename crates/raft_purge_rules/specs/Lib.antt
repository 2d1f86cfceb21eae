pub mod Choice
pub mod Choosing
pub mod Need
pub mod NextGroups
pub mod Plan
pub mod Rounds
pub mod Watermarks
