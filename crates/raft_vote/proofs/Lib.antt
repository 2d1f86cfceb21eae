pub mod StateLemmas
pub mod StaysLemmas
pub mod OtherLemmas
pub mod SaveLemmas
