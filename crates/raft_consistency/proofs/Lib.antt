pub mod HoleLemmas
pub mod ReadLemmas
pub mod TakenLemmas
