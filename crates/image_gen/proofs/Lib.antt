pub mod PieceLemmas
pub mod WholeLemmas
pub mod LaidLemmas
pub mod GeneratedLemmas
pub mod GeneratedStart
