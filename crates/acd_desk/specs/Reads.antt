-- What is read of a desk, and the texts of it.
pub mod BookReads
pub mod Kinds
pub mod ReadAnswers
pub mod DeskReads
pub mod GroupStates
pub mod AnswerTexts
pub mod Pages
pub mod RequestPages
