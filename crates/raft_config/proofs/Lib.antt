pub mod ConfigLemmas
