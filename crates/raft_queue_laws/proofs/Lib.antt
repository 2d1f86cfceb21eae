pub mod DetectableDamageLemmas
pub mod PremiseLemmas
pub mod PastLemmas
pub mod QueueDamageLemmas
pub mod ListingLemmas
pub mod QueueSoundLemmas
pub mod SpanLemmas
