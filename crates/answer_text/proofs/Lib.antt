pub mod Common
pub mod AnswerRows
pub mod Levels
