pub mod BatchLemmas
pub mod NumberLemmas
pub mod HistoryLemmas
pub mod LoopLemmas
