pub mod SizeLemmas
pub mod Walks
