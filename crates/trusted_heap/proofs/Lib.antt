pub mod BlockLemmas
pub mod CallLemmas
pub mod FitLemmas
pub mod GapLemmas
