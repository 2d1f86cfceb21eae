pub mod Handles
pub mod OpenedLemmas
pub mod RawBoxes
