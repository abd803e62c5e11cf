pub mod VerdictLemmas
pub mod WindowLemmas
