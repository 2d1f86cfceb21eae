pub mod DefaultLemmas
pub mod ReadBackLemmas
pub mod SizeTextLemmas
pub mod TableLemmas
