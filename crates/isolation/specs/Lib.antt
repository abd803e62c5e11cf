pub mod GrammarLaws
pub mod Laws
