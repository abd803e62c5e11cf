pub mod ListLemmas
pub mod MapLemmas
pub mod EditLemmas
pub mod NoteLemmas
pub mod NextLemmas
pub mod FetchLemmas
pub mod SwapLemmas
