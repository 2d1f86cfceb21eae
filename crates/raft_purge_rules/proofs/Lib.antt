pub mod ChoosingLemmas
pub mod NextGroupsLemmas
pub mod RoundsLemmas
pub mod IdleLemmas
