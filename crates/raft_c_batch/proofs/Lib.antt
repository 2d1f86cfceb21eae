pub mod LoopLemmas
pub mod WrittenLemmas
pub mod PartLemmas
pub mod ReadLemmas
