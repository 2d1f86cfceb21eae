pub mod CallLemmas
pub mod CodeLemmas
pub mod FetchLemmas
pub mod JoinedLemmas
pub mod NumberLemmas
pub mod OpeningLemmas
pub mod RefusalLemmas
pub mod ScanLemmas
