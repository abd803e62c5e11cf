pub mod SplitLemmas
pub mod PartLemmas
pub mod CopyLemmas
