pub mod FeedLemmas
pub mod FragmentLemmas
pub mod HeaderLemmas
pub mod MessageLemmas
pub mod OpenLemmas
pub mod StreamLemmas
