pub mod ConsistentLemmas
pub mod DirectoryLemmas
pub mod DirectoryNamesLemmas
pub mod MomentsLemmas
pub mod OutcomesLemmas
pub mod OutcomesOverlayLemmas
pub mod PathPartsLemmas
