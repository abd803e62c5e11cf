pub mod FileLemmas
pub mod CauseLemmas
pub mod RegionLemmas
pub mod AnswerLemmas
