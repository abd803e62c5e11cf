pub mod Answers
pub mod Notes
pub mod Listed
pub mod ListLaws
pub mod FetchLaw
