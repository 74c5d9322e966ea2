pub mod CourseLemmas
pub mod FileRunLaw
pub mod FollowLemmas
pub mod MarkLemmas
pub mod RoundLemmas
pub mod StartLemmas
pub mod TextLemmas
