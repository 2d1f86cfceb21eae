pub mod LineLemmas
pub mod LineReadingLemmas
pub mod ProgramLemmas
