pub mod WordLemmas
pub mod RuleLemmas
pub mod TurnLemmas
pub mod WalkLemmas
pub mod OutcomeLemmas
pub mod BuildLemmas
pub mod GetterLemmas
pub mod FitLemmas
