pub mod CheckedLemmas
pub mod PassedLemmas
pub mod PlanLemmas
