pub mod CallLemmas
pub mod ReadableLemmas
pub mod WriteLemmas
