pub mod Ranges
pub mod AnswersShown
