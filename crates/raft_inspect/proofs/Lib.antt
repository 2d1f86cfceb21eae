pub mod KeptLemmas
pub mod LossesLemmas
