pub mod CallLemmas
pub mod CountedLemmas
pub mod FreeLemmas
pub mod GuardLemmas
pub mod KeyLemmas
pub mod MmapLemmas
pub mod RangeLemmas
pub mod WalkLemmas
