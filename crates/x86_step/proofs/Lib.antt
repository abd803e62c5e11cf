pub mod BoundaryLemmas
pub mod ExecutesLemmas
pub mod HeaderLemmas
pub mod WordLemmas
