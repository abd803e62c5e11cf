pub mod CodeLemmas
pub mod RangeLemmas
pub mod TextLemmas
pub mod UnsafeLemmas
