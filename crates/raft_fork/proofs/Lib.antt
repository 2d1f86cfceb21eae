pub mod CopiesLemmas
pub mod FoldersLemmas
pub mod ForkLemmas
pub mod MarkLemmas
pub mod PlacesLemmas
pub mod ReadsLemmas
pub mod RefusedLemmas
pub mod StepsLemmas
