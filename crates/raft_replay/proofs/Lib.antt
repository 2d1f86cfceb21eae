pub mod CountLemmas
pub mod KeptLemmas
pub mod RecoveredLemmas
pub mod MachineLemmas
pub mod AppendedLemmas
pub mod CodedLemmas
pub mod HoleLemmas
mod JoinedLemmas
pub mod OverLemmas
pub mod ChunkLemmas
pub mod KnownLemmas
pub mod NotedLemmas
pub mod ReachLemmas
mod OlderLemmas
