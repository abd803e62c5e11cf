pub mod Answers
pub mod Guards
pub mod KeyAnswers
pub mod Keys
pub mod Ranges
